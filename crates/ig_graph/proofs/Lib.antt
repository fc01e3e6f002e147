mod ForestLaws
