mod Scenes
