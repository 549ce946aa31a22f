mod Printing
mod Serving
mod Drawing
